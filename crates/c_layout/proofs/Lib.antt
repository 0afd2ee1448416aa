pub mod Names
pub mod Overlaid
