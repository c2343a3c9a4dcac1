pub mod Reader
pub mod Groups
pub mod Sound
pub mod Accepted
pub mod Rewrite
