pub mod Walks
pub mod Shown
pub mod Printed
pub mod Underway
pub mod Placed
pub mod Examples
