pub mod Texts
pub mod Words
pub mod Fields
pub mod Verbs
pub mod Lines
pub mod Ranges
pub mod Scripts
pub mod Printed
