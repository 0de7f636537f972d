-- Laws of fields.
pub mod Letters
