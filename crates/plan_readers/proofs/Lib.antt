pub mod Ordering
pub mod Reading
