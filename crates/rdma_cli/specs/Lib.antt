pub mod About
pub mod Running
