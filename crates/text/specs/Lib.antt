pub mod Scan
pub mod Sound
pub mod Written
pub mod Reading
