-- The walk over a recorded fault. Read Recorded, then Walk, then Visited and Found; Standing is for the code's contracts.
pub mod Recorded
pub mod Walk
pub mod Visited
pub mod Found
pub mod Standing
