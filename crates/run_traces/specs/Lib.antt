pub mod Lines
pub mod Answers
pub mod Traces
pub mod Verdicts
pub mod Grammar
pub mod Auditing
pub mod Evaluate
pub mod Written
