pub mod Commands
pub mod Mixes
pub mod Texts
pub mod Runs
pub mod Nodes
pub mod Headline
pub mod Ends
pub mod Due
