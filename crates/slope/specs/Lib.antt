pub mod Height
pub mod Plain
