pub mod Reading
pub mod Replacing
