pub mod Form
pub mod Rewrite
pub mod Lent
