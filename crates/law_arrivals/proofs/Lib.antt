pub mod Bytes
pub mod Changes
pub mod Steps
pub mod Landing
pub mod Serving
pub mod Outside
pub mod Arriving
pub mod Turns
