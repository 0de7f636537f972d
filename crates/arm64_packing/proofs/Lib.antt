-- Laws behind the proofs of the functions.
pub mod CountsLaws
pub mod Tallies
pub mod Comparing
pub mod Answers
