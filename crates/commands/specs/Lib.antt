pub mod Stopping
pub mod Writing
