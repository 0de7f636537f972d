-- What the functions of this crate promise of the definitions in crates/format/specs/X64Reader.antt.
pub mod Reads
