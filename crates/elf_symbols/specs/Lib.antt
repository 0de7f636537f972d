-- What tables in sections of an ELF file hold: symbols and relocations, and the function at an address.
pub mod Entries
pub mod Symbols
pub mod Relocations
pub mod Functions
