-- Laws behind the proofs of the functions.
pub mod Headers
pub mod Epilogues
pub mod Whole
pub mod Lent
