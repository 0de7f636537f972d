-- The lemmas of this crate's functions.
pub mod Fields
pub mod SevenBits
pub mod Signs
pub mod Sizes
pub mod Zeros
