-- What the helpers of the LEB numbers do.
pub mod Groups
pub mod Signs
