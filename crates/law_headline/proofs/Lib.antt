pub mod Following
pub mod Tells
pub mod Reading
pub mod Lawful
pub mod Played
