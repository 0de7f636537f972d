-- The lemmas of this crate's functions, and the law that the lines are what the reader answers.
pub mod StoredLines
pub mod Doing
pub mod Both
pub mod Asking
pub mod AtOffset
pub mod Saying
pub mod Examples
