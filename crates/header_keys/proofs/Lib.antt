-- The lemmas of this crate's functions.
pub mod Calls
pub mod Counting
pub mod Functions
pub mod KindMeans
pub mod Places
