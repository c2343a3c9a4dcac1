pub mod Relinked
pub mod Lists
pub mod Result
pub mod Twice
pub mod Order
pub mod Calls
