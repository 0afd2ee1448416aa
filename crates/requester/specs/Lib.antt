pub mod Held
pub mod Marks
pub mod Sending
pub mod Taking
pub mod Telling
pub mod Transmitting
