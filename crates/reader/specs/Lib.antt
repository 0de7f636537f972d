-- What the functions over positions of a section answer, by the definitions of format; and what the code's state means.
pub mod Spans
pub mod Entries
pub mod Operations
pub mod Records
pub mod Fields
pub mod Finds
pub mod OneRegister
pub mod States
pub mod Listing
