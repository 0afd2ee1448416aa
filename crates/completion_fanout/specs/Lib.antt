pub mod Fanned
pub mod Rule
pub mod Served
pub mod Feeding
pub mod HandedOut
