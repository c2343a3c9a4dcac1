pub mod Points
pub mod Map
pub mod Runs
pub mod Mates
pub mod Verdict
