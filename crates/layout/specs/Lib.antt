pub mod Grammar
pub mod Layout
pub mod Plain
pub mod Starts
