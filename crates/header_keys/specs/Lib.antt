-- What a section takes of a function's record, and what its writers may rely on.
pub mod Functions
pub mod Kinds
pub mod OneProof
pub mod Inputs
