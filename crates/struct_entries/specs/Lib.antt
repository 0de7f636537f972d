-- The entries over lists of structs: what the structs mean, how they are stored as numbers, and what the entries answer.
pub mod Structs
pub mod Packed
pub mod Checks
pub mod Entries
