pub mod Numbers
pub mod Floors
pub mod Taken
pub mod Ring
pub mod Chains
pub mod Passing
