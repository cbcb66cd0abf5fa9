pub mod Order
pub mod Left
pub mod Runs
pub mod Turns
pub mod Driving
pub mod Examples
