-- Laws of a function's runs and its record.
pub mod Given
pub mod PackedWord
pub mod Backwards
pub mod Own
pub mod Asked
pub mod Indexes
pub mod Codes
pub mod Scopes
pub mod Record
pub mod Taken
