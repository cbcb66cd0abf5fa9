mod Examples
mod Giving
mod Numerals
pub mod OneCommand
mod OneMore
mod Reading
