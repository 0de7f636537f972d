-- A writer, and then the walk by the section that it wrote.
pub mod Together
