pub mod Steps
pub mod Outputs
