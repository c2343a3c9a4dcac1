pub mod Alike
pub mod WordForWord
pub mod Shown
pub mod Calls
pub mod Screens
pub mod TypedName
pub mod MayDiffer
pub mod Example
