-- A function's rows and length after its section was put in place, and what a writer, the relocations applied and the reader answer together.
pub mod Moved
pub mod Together
