pub mod Shown
pub mod Cuts
pub mod Askings
pub mod Tries
pub mod Putting
pub mod Ways
pub mod Wholes
