pub mod Prefixes
pub mod Played
pub mod Faults
