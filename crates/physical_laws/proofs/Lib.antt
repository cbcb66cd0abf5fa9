pub mod Fed
pub mod Good
pub mod Joined
