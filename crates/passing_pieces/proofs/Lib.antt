pub mod LargeAnswers
pub mod ClaimAnswers
pub mod Faults
pub mod Results
