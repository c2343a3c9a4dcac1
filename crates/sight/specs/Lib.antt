pub mod Rows
pub mod Grammar
pub mod Sight
pub mod Code
pub mod Plain
