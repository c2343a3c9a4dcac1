pub mod Triangle
pub mod Crosses
pub mod Weights
pub mod Corners
pub mod Machine
