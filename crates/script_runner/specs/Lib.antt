pub mod Actions
pub mod Playing
