pub mod connection
pub mod flags
pub mod opening
pub mod queue_room
pub mod settling
pub mod work
