pub mod Put
pub mod Numbers
pub mod Short
pub mod Runs
pub mod Signed
