pub mod LastRows
pub mod Lasts
