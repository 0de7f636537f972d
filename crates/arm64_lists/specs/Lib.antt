-- A sum of records, held to the most that there may be.
pub mod Sums
