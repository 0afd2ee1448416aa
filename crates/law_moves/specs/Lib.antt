pub mod Evacuated
pub mod Held
