-- A function of the lists, and how its runs and its record are made.
pub mod Listed
pub mod Own
pub mod PackedWord
pub mod Record
pub mod Function
