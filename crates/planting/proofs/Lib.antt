pub mod Ranges
pub mod Order
pub mod Tight
pub mod Writing
pub mod Worked
