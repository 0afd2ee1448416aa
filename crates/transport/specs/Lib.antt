pub mod Ring
pub mod Table
pub mod Near
pub mod Cut
pub mod Heads
