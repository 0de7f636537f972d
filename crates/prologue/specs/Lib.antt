-- A prologue's rows one by one, as this crate's functions read them.
pub mod Given
pub mod Groups
pub mod Pieces
pub mod Readable
