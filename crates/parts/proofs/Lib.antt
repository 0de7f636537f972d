-- The lemmas of this crate's functions, and what their answers agree with.
pub mod Entered
pub mod Operated
pub mod Recorded
pub mod Headed
pub mod Agrees
pub mod Walks
pub mod Suffixes
pub mod Readings
pub mod Examples
