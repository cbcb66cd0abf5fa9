pub mod Lists
pub mod SoundNodes
pub mod Ordered
pub mod Steps
pub mod Wiring
pub mod PortKeys
pub mod Counting
