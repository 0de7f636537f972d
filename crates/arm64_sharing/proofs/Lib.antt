-- Loops that store a run and compare runs.
pub mod Storing
pub mod Comparing
