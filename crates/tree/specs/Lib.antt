pub mod Tree
pub mod Trail
pub mod Boxes
pub mod Plain
pub mod Visits
