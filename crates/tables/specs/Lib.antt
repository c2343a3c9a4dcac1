pub mod Tables
pub mod Header
pub mod Parts
pub mod Fixed
pub mod Plain
