-- What the reader's exports by place answer. Read Places, Addresses and Index; Standing is for the code's contracts.
pub mod Places
pub mod Addresses
pub mod Index
pub mod Standing
