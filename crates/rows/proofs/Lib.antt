-- The lemmas of this crate's functions.
pub mod Signs
pub mod Factors
pub mod Bytes
pub mod Steps
pub mod Numbers
pub mod ShortSizes
pub mod WholeNumbers
