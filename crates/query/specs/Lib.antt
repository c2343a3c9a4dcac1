pub mod Rules
pub mod Points
pub mod Plain
