pub mod Records
pub mod Said
pub mod Whole
