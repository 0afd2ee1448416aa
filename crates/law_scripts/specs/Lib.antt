pub mod Sound
pub mod Settled
