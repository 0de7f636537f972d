-- What is read of what was written, and what the codes of a record do.
pub mod Given
pub mod Undo
pub mod Thread
