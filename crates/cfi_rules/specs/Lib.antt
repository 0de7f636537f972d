-- The rules at a place.
pub mod Rules
pub mod Registers
pub mod Log
pub mod States
pub mod Actions
pub mod Passes
