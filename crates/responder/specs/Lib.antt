pub mod Kinds
pub mod Receiving
pub mod Taking
pub mod Taken
pub mod Steps
pub mod Sound
