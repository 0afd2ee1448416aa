pub mod Made
pub mod Following
pub mod Events
pub mod Bare
