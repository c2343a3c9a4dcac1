pub mod Links
pub mod Plain
