-- A run's codes out of a list of numbers.
pub mod Saves
pub mod Steps
pub mod Written
