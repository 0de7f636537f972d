-- What holds of a packed word's fields.
pub mod Fields
