pub mod Rounded
pub mod Meaning
pub mod Machine
pub mod Worked
