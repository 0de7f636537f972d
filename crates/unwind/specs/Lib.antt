-- What the public entries over lists of numbers promise, beyond crates/format/specs.
pub mod Demand
pub mod Together
pub mod Entries
pub mod Formats
