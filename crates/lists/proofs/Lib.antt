-- The lemmas of this crate's functions.
pub mod Answers
pub mod Ranges
pub mod Sums
pub mod Machines
pub mod Extents
pub mod Outlines
pub mod Rooms
pub mod Lent
