-- The lemmas of this crate's function.
pub mod Back
