pub mod Changes
pub mod Claiming
pub mod Drops
pub mod Handing
pub mod Marked
pub mod Openings
pub mod Pulling
pub mod Standing
