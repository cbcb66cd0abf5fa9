pub mod Endings
pub mod Lowers
