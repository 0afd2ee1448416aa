pub mod Handed
pub mod OwnRuns
pub mod Planned
pub mod Polls
