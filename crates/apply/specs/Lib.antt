-- What it is to apply relocations to a section (request W-211). Read Kinds, Fields, Values and Apply in this order; Standing is for the code's contracts.
pub mod Kinds
pub mod Fields
pub mod Values
pub mod Apply
pub mod Pairs
pub mod Standing
