-- Windows' unwind data on ARM64, from Microsoft's page "ARM64 exception handling". Read them in this order.
pub mod Codes
pub mod Lists
pub mod Records
pub mod Packed
pub mod Meaning
pub mod Reader
pub mod Runs
pub mod Packing
pub mod Writer
