pub mod Changes
pub mod Isolation
pub mod Counted
pub mod Put
