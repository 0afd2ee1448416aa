pub mod Answered
pub mod Names
pub mod Faults
pub mod LineFaults
pub mod Counting
