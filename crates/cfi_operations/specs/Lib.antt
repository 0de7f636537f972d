-- Operations and their operands.
pub mod Numbers
pub mod Operands
pub mod Operations
