pub mod CopiedCompletions
pub mod CopiedPostings
