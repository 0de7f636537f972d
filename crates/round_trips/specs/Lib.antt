-- What functions of the library owe each other.
pub mod Marked
pub mod Indexed
pub mod Entries
