pub mod Differing
pub mod Numbers
pub mod Differences
pub mod Shown
