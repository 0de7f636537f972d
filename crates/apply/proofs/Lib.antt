-- The laws behind the proofs of `apply`.
pub mod Integers
pub mod Tests
pub mod Sums
pub mod Wrap
pub mod Patches
pub mod Stores
pub mod Loops
pub mod Distances
pub mod Outside
pub mod Copies
pub mod Entry
pub mod Pairs
pub mod Vectors
