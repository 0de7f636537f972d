-- What the exports answer of a section: its entries, the fields of a header and of a record, and their operations.
pub mod Entries
pub mod Operations
pub mod Faults
pub mod Headers
pub mod Records
pub mod Agrees
