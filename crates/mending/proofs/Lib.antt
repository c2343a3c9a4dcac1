pub mod Puts
pub mod Tables
pub mod Records
pub mod Form
