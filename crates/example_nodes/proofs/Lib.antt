pub mod Compositions
pub mod Forging
