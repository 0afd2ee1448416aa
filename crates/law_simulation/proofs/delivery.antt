pub mod First
pub mod Found
pub mod Arriving
pub mod EachKind
pub mod Pairs
pub mod Lifted
pub mod Regions
pub mod Words
