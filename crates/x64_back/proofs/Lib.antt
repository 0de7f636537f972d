-- What `seh` and COFF's writer wrote reads as it was given, and what was read gives the entry's stack pointer back.
pub mod CodeBack
pub mod InfoBack
pub mod SehBack
pub mod EntryPointer
pub mod FromHeader
pub mod Exits
pub mod Undoing
pub mod Records
pub mod EntryBack
pub mod Examples
