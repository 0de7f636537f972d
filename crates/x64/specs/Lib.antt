-- What the functions of this crate answer, where the definitions have no name for it.
pub mod Answers
pub mod Given
pub mod Listed
pub mod Sources
