pub mod Keyed
pub mod Placed
