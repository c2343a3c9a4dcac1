pub mod Held
pub mod Plain
