pub mod Halves
pub mod Group
pub mod Paired
pub mod Chains
pub mod Claims
