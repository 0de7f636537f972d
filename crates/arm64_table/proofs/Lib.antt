-- The lemmas of this crate's functions.
pub mod Rows
pub mod Parts
pub mod Loops
pub mod Results
pub mod Entries
