pub mod Placed
pub mod Given
pub mod Phased
