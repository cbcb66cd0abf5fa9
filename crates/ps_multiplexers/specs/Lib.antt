pub mod Multiplexers
pub mod Visiting
pub mod Readers
pub mod Examples
pub mod Taken
