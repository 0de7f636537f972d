-- A writer, and then the check of the section that it wrote.
pub mod Together
