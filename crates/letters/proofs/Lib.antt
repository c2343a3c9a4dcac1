pub mod ClassLaws
pub mod CaseLaws
