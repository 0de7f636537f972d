mod Stores
mod Filled
mod Means
