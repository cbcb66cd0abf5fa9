pub mod ReadNames
pub mod Rows
pub mod Groups
pub mod Wide
pub mod Streams
