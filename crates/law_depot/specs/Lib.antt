pub mod Depot
pub mod Laws
