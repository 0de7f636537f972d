-- The ready machines, and a machine as the list of numbers that the writers take.
pub mod Ready
pub mod Numbers
