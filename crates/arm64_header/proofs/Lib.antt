-- Laws of the header by its numbers.
pub mod Forms
