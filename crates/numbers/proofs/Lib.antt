-- The lemmas of this crate's functions.
pub mod Pointers
mod Powers
