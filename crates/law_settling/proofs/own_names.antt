pub mod Naming
pub mod Stepping
pub mod Counting
pub mod Moving
pub mod Worlds
pub mod Enough
