-- The lemmas of this crate's functions.
pub mod Questions
pub mod Forms
pub mod Copies
pub mod Sizes
