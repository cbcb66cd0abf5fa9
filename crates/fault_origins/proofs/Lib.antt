pub mod Tasks
pub mod Results
pub mod Ended
