-- The laws of the walk.
pub mod SameSource
pub mod ByRows
pub mod VisitedFrames
pub mod Leaves
pub mod Holders
pub mod Trailers
pub mod Leaving
pub mod Files
pub mod Turns
pub mod Listing
pub mod Chains
pub mod Finding
pub mod OwnNumbers
pub mod Vectors
