pub mod Evacuation
pub mod Evaluate
