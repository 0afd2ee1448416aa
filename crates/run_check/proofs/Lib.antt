pub mod Books
pub mod Taking
pub mod Upto
pub mod Loops
pub mod Telling
pub mod Faults
pub mod Due
pub mod Finders
