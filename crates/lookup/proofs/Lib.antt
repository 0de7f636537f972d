-- The lemmas of this crate's functions.
mod Listing
mod Held
