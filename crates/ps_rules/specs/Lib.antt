pub mod Names
pub mod Slots
pub mod Calls
pub mod Bundles
pub mod Rules
pub mod Lowered
pub mod Counted
pub mod Worked
