pub mod Fields
pub mod Groups
pub mod Ahead
pub mod Steps
pub mod Faults
pub mod Overfull
pub mod ReadProgress
pub mod Latched
