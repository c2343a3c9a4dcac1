pub mod Count
pub mod Number
