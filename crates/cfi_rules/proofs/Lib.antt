-- Laws of the log, and of a pass.
pub mod Logged
pub mod PassLaws
