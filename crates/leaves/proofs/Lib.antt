-- The laws that the proofs of `leaves` cite.
pub mod Room
