pub mod Owned
pub mod Told
pub mod Steps
pub mod Readers
pub mod Images
