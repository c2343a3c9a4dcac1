pub mod Plant
pub mod Plain
