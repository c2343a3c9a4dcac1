pub mod Examples
pub mod Orders
