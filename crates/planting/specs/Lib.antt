pub mod Boxes
pub mod Planting
pub mod Sides
pub mod Ready
