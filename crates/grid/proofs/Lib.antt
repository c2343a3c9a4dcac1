pub mod Fractions
pub mod Grid
pub mod Order
pub mod Patterns
pub mod Finite
pub mod Nudges
pub mod Answers
pub mod Equal
