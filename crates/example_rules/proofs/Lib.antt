pub mod Alone
pub mod WorldOrders
pub mod Examples
pub mod Arrivals
pub mod OwnDevices
