pub mod Order
pub mod Meaning
pub mod Answers
pub mod Rewriting
pub mod Again
pub mod Kept
pub mod Edits
