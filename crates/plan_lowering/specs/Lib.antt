pub mod Lowered
pub mod Examples
pub mod There
pub mod Few
