mod Exits
mod Digits
mod Splitting
mod Nexts
mod Ranges
mod Cutting
mod Printable
mod ReadBack
mod Objects
mod Decimals
pub mod Apart
pub mod Whole
pub mod Writing
