pub mod Claims
pub mod Handing
pub mod Laws
pub mod Running
pub mod Storing
pub mod Streaming
pub mod Updating
