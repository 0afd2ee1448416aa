pub mod Bares
pub mod Flight
pub mod Keeping
pub mod Payloads
pub mod Rows
pub mod Tables
