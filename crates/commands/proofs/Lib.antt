pub mod Complete
pub mod Ending
pub mod Lines
pub mod Stops
pub mod Tales
