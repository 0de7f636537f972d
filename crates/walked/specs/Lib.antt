-- What the types of the code stand for, the registers that operations name, and what the export answers.
pub mod Endings
pub mod Standing
pub mod Named
pub mod Entry
pub mod Faults
