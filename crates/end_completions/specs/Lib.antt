pub mod Payloads
pub mod Completing
