pub mod Allowed
pub mod Kind
pub mod Fields
pub mod Area
