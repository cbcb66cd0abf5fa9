pub mod Slots
pub mod Kept
pub mod Still
pub mod Moves
pub mod Reached
