pub mod Replies
pub mod Pending
pub mod Arrivals
pub mod Passes
