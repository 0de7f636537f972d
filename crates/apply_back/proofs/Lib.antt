-- An eh_frame section that was written, put in place and read.
pub mod StepsBack
pub mod Stretches
pub mod Fills
pub mod Pairs
pub mod Blanks
pub mod RecordPlaced
pub mod HeaderPlaced
pub mod SectionPlaced
pub mod Alike
pub mod SectionRead
pub mod MovedBack
pub mod Together
pub mod Examples
