pub mod Listing
pub mod Times
pub mod Streams
pub mod Extending
pub mod Ruling
pub mod Items
pub mod Later
