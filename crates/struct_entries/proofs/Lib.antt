-- Laws of the structs as numbers and of the entries over them.
pub mod Rooms
pub mod Stored
pub mod Meaning
pub mod Checked
pub mod Agrees
pub mod Zeros
pub mod BeforeRoom
pub mod Parts
pub mod Packing
pub mod Demand
pub mod Sections
