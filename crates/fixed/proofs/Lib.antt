pub mod Parted
pub mod UpTo
