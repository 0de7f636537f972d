-- What is promised of a list that is written and whose call sites are then read.
pub mod Back
