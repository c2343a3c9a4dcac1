pub mod Class
pub mod Case
