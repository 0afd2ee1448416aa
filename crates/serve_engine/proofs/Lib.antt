pub mod LineSteps
pub mod Turning
pub mod Moves
pub mod FromLink
pub mod Restores
pub mod ReadLines
