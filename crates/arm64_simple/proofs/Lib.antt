-- Laws of codes and runs as they are written.
pub mod OneCode
pub mod Loops
