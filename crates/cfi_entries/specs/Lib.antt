-- What a section's entries are, and all of them in order.
pub mod Refusals
pub mod Places
pub mod Entries
pub mod Listing
