pub mod Leading
pub mod Expiring
