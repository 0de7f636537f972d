-- What the readers of numbers and operations find at a place.
pub mod Positions
pub mod Signs
pub mod Groups
pub mod Reads
