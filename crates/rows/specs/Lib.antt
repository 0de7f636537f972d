-- What the helpers of rows and operations do.
pub mod Forms
pub mod Operands
pub mod Sizes
pub mod Meanings
