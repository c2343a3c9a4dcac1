pub mod Loops
pub mod Marks
pub mod Edges
pub mod Group
pub mod Entries
pub mod Rings
pub mod Sound
pub mod Same
