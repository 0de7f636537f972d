-- The lemmas of this crate's functions.
pub mod PositionLaws
pub mod OperationLaws
pub mod Signs
pub mod GroupLoop
pub mod Readings
pub mod FieldLoop
pub mod Products
pub mod OperandLaws
