-- What the listing of a record's rules answers, and what its lines say.
pub mod Lines
pub mod AtOffset
