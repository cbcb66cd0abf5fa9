pub mod Making
pub mod Building
pub mod Readable
pub mod Completing
pub mod Arms
pub mod Whole
