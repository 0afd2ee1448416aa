pub mod Differing
pub mod Links
pub mod Kinds
