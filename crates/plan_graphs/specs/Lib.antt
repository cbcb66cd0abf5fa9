pub mod Made
pub mod Wiring
pub mod Underway
