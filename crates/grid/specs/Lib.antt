pub mod Grid
pub mod Answers
pub mod Plain
