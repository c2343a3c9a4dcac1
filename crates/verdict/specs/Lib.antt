pub mod Lowest
pub mod Lists
pub mod Verdict
pub mod Memory
pub mod Output
pub mod Refusals
