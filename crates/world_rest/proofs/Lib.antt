pub mod Sweeping
pub mod Seen
pub mod Wired
pub mod Turning
pub mod Settled
pub mod Rest
