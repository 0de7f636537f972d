-- The lemmas of this crate's functions.
pub mod Ordering
pub mod Checking
