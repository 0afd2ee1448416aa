pub mod Gathered
pub mod Checks
