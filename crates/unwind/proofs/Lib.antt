-- The lemmas of this crate's functions.
pub mod DebugSites
pub mod Fitting
pub mod Fronts
pub mod Demands
pub mod Formats
pub mod Numbered
pub mod Delivering
pub mod Marks
