mod Visited
pub mod Noted
mod Through
mod Rewiring
pub mod Keeping
mod Finished
pub mod Apart
mod Once
