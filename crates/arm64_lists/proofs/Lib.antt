-- Question 13 of a code, and of sums.
pub mod Codes
pub mod Totals
