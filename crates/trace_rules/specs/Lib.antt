pub mod Recording
pub mod Playing
pub mod Heard
pub mod Evaluate
