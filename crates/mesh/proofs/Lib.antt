pub mod Wild
pub mod Corners
pub mod Walkable
pub mod Plain
