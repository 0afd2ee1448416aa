pub mod Parts
pub mod Ends
pub mod Outside
pub mod Steps
pub mod OneTurn
pub mod WholeScript
pub mod Counts
