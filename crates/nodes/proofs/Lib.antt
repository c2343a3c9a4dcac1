pub mod Rule12
