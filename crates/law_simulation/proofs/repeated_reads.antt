pub mod RereadNumbers
pub mod RereadSteps
pub mod Rereads
