pub mod Marks
pub mod Shown
pub mod Steps
pub mod Waits
pub mod Idle
pub mod Left
pub mod Loads
pub mod Quieted
