-- The header of a full record by its numbers.
pub mod Header
