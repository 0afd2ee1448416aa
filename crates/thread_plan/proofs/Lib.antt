pub mod Counting
pub mod SameBooks
pub mod Seen
pub mod Tables
pub mod Whole
