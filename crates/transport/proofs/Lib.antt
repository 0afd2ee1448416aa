pub mod Replies
mod Near
pub mod Pieces
mod Packets
