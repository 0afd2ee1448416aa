pub mod Ending
pub mod MailEnding
pub mod ThreadLinesApart
pub mod Counting
pub mod ThreadEnding
pub mod Joined
pub mod ToolsApart
pub mod Doing
