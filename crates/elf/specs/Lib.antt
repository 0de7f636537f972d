-- What an ELF file says: its header, its tables of sections and segments, its names and notes.
pub mod Fields
pub mod Refusals
pub mod Tables
pub mod Searches
pub mod Header
pub mod Sections
pub mod Section
pub mod Notes
pub mod Segments
