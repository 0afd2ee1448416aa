pub mod Evaluate
pub mod Things
pub mod Composition
pub mod Forged
