pub mod Asked
pub mod InTime
pub mod Fairness
