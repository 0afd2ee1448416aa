pub mod Arrivals
pub mod Events
pub mod Lines
pub mod Recorded
pub mod Steps
