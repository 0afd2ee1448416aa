pub mod Preparing
pub mod Doing
