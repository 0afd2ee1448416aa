pub mod Endings
pub mod Mails
pub mod ThreadEndings
pub mod Threads
pub mod Fanout
pub mod Serial
pub mod Does
