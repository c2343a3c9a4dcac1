pub mod WriteLaws
pub mod FitLaws
