pub mod Distincts
pub mod Streams
pub mod Firsts
