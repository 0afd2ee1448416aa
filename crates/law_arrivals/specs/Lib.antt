pub mod Touched
pub mod Reach
pub mod Turns
