-- What the functions of this crate write and answer, where the definitions have no name for it.
pub mod Sites
pub mod Stepped
pub mod Fields
pub mod Labels
pub mod Landings
pub mod Written
