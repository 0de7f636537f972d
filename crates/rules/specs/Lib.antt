-- What the state of the row check means, and the row check of rows that calls give.
pub mod Orders
pub mod Whole
