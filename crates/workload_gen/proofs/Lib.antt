pub mod Growth
pub mod Lines
