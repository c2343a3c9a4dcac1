pub mod Order
pub mod Form
pub mod Answers
pub mod Calls
