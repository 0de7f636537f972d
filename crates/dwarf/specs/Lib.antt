-- What the passes over a list of functions go by.
pub mod Asks
pub mod Parts
pub mod Pieces
pub mod Writable
pub mod OneProof
pub mod Tables
pub mod Surveys
pub mod Lent
pub mod Functions
