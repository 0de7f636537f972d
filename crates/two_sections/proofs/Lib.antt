-- What the writers wrote of one list reads alike.
pub mod Stories
