pub mod Tells
pub mod Numbered
pub mod Told
pub mod Found
pub mod Blocks
pub mod Under
pub mod Parts
