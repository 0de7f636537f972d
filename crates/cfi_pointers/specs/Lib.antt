-- The encodings of pointers, and a pointer at a place.
pub mod Sizes
pub mod Encodings
pub mod Pointers
