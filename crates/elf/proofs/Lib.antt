pub mod Tables
pub mod Searches
pub mod Walks
