pub mod Laying
pub mod Allowed
pub mod Area
pub mod Fields
