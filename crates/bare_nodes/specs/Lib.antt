pub mod Bare
pub mod Uncalled
