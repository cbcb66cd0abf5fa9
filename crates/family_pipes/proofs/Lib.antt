pub mod Begins
pub mod Complete
pub mod Sent
pub mod Inputs
pub mod Outputs
pub mod SourceSteps
