pub mod Arenas
pub mod Tested
