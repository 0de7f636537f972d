-- The full record as the code answers it.
pub mod Parts
pub mod Lent
pub mod Record
