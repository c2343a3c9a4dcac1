pub mod Triangle
pub mod Weighted
