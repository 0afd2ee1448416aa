pub mod Groups
pub mod Left
pub mod Fitting
pub mod Writing
pub mod Gives
pub mod Text
