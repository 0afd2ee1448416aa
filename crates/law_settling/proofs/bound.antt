pub mod Lives
pub mod Delivering
pub mod Turns
pub mod Sums
pub mod Walk
pub mod Rounds
