pub mod Corners
pub mod Memory
