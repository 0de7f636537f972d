-- What the functions of this crate answer, where the definitions have no name for it.
pub mod Parts
pub mod Extents
pub mod Room
pub mod Given
pub mod Lent
