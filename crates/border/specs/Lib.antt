pub mod Loops
pub mod Memory
pub mod Plain
