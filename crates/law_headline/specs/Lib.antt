pub mod Does
pub mod Script
pub mod Follows
pub mod Left
pub mod Playing
pub mod Evaluate
