pub mod Acts
pub mod Served
pub mod Composed
pub mod Changes
pub mod Bounded
pub mod Laws
