pub mod Box
pub mod Plain
