pub mod Given
pub mod Told
pub mod Failed
pub mod Placed
