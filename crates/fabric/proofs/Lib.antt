pub mod Prefixes
pub mod Stores
