pub mod Store
pub mod Bytes
pub mod Pool
pub mod Ledger
pub mod Held
