-- The lemmas of this crate's functions.
pub mod Placing
pub mod Addressing
pub mod Passing
pub mod Indexing
pub mod Marking
pub mod Standing
pub mod ByIndex
pub mod FromPlaces
