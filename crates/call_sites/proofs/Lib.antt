-- The laws that the proofs of this crate's functions cite.
pub mod Marks
pub mod OneEntry
pub mod Runs
pub mod Tables
pub mod Lists
pub mod Examples
