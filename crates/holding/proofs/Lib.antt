pub mod Chains
pub mod Owners
pub mod Shifts
pub mod Plain
