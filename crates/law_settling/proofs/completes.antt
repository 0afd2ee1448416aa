pub mod Still
pub mod Keeping
pub mod Words
pub mod Announcing
pub mod Answering
pub mod Hearing
pub mod Visits
pub mod Telling
