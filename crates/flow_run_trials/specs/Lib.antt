pub mod Ready
pub mod Driven
pub mod Tools
