pub mod Shown
pub mod Journals
