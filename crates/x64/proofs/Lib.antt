-- The lemmas of this crate's functions.
pub mod Stored
pub mod Walks
pub mod Leaves
pub mod Parts
pub mod Asked
pub mod Infos
pub mod Spans
pub mod Results
pub mod Writing
pub mod Entries
pub mod ByRows
