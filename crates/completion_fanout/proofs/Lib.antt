pub mod Lists
pub mod Steps
pub mod Joins
pub mod DealtInTurn
pub mod Counting
pub mod Dealt
pub mod FannedRuns
