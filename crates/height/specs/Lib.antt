pub mod Feet
pub mod Plain
