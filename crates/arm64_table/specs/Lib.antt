-- What the functions of this crate answer, where the definitions have no name for it.
pub mod Tables
pub mod Functions
