pub mod Parts
pub mod Joined
pub mod Given
pub mod Back
pub mod Sizes
