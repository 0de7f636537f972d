-- The lemmas of this crate's functions, and the laws that callers of it need.
pub mod Finding
pub mod Comparing
pub mod Firsts
pub mod Walking
pub mod Digests
pub mod OwnerLoop
pub mod Sharing
pub mod Lent
