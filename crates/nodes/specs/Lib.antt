pub mod Nodes
pub mod Plain
