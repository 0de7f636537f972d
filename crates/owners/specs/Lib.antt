-- Owners of headers, and the chains that they are found in.
pub mod Owners
pub mod Chains
pub mod Lent
