-- The answer of a reader.
pub mod Answers
