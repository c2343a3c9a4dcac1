pub mod Kept
pub mod Notes
