-- The laws of the walk by a section.
pub mod Rules
pub mod Silent
pub mod Marking
pub mod Steps
pub mod Entering
