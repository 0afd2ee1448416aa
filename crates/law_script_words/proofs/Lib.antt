pub mod Spoken
pub mod Numbers
pub mod Lines
