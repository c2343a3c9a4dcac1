pub mod Caption
