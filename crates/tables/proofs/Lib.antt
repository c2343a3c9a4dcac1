pub mod Spans
pub mod Floor
pub mod Right
pub mod Reading
pub mod Reform
pub mod Writing
