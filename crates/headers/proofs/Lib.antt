-- The lemmas of this crate's functions.
pub mod Entries
pub mod Tails
pub mod Turns
pub mod Words
pub mod Lengths
pub mod Keys
pub mod Personalities
