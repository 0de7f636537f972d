-- What this crate's functions mean where crate format has no name for it.
pub mod Entries
pub mod Kinds
pub mod Written
