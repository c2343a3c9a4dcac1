pub mod Reaches
pub mod Nesting
pub mod Sights
pub mod Walks
pub mod Replies
pub mod Counting
pub mod Meaning
pub mod Orders
