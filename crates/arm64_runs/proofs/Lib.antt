-- Laws behind the proofs of the functions.
pub mod Ahead
pub mod Stores
