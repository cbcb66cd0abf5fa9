pub mod Sides
pub mod Composed
pub mod Composes
pub mod Streams
