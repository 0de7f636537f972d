-- The lemmas of this crate's functions.
pub mod Instructions
pub mod Neighbours
pub mod Prefixes
pub mod Walked
pub mod Answers
pub mod Told
pub mod Counting
pub mod Registers
pub mod Distances
pub mod Arms
pub mod Frames
pub mod Rows
pub mod Turns
pub mod Pieced
