pub mod Mended
pub mod Changes
pub mod Mend
pub mod Plain
