-- The structures of the gABI, written.
pub mod Written
