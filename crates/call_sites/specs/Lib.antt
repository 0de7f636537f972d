-- What the functions of this crate promise, beyond crates/format/specs.
pub mod Reads
pub mod Listed
