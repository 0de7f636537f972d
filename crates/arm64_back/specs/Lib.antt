-- What holds of a function that was written and read back, and of a packed word.
pub mod Back
pub mod Together
pub mod Down
