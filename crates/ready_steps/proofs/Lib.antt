pub mod OverInputs
pub mod RowSteps
pub mod JoinSteps
