pub mod Keyed
pub mod Regions
pub mod Faults
pub mod Causes
