pub mod Planned
pub mod Tables
pub mod Seen
