-- Runs as the code answers them.
pub mod Runs
pub mod Left
