pub mod Completions
pub mod Postings
pub mod Untold
