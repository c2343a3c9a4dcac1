pub mod Halves
pub mod Chains
pub mod Plain
