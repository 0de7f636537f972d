-- What the exports answer.
pub mod Entries
pub mod Registers
