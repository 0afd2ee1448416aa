pub mod Books
pub mod Orders
