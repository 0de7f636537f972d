-- The lemmas of this crate's functions.
pub mod Refusals
pub mod Marks
pub mod ByIndex
pub mod Cursor
