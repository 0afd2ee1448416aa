pub mod Sound
pub mod Silent
