pub mod Streams
pub mod Memory
pub mod Depots
pub mod Links
pub mod Controls
pub mod Stores
