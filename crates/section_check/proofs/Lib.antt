-- The lemmas of this crate's functions, what the check means, and that our sections pass.
pub mod Says
pub mod Entries
pub mod Pass
pub mod OwnSections
pub mod Examples
