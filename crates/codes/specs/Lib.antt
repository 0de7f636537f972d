-- What the leaves of x64 codes answer.
pub mod Codes
