pub mod Empty
pub mod Arms
pub mod Choosing
pub mod Fits
pub mod Naming
pub mod Several
pub mod Standing
pub mod Testing
