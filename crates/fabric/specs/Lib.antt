pub mod Store
pub mod Told
