pub mod Counts
pub mod Extents
pub mod Flaws
pub mod Orders
pub mod Search
