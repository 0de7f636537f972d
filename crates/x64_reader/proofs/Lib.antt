-- The laws that the proofs of this crate's functions cite.
pub mod Codes
pub mod Runs
pub mod Headers
pub mod Entry
