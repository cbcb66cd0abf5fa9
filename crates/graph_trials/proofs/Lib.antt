pub mod Chaining
pub mod Setting
