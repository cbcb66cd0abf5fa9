pub mod Turning
pub mod Updated
mod Stores
