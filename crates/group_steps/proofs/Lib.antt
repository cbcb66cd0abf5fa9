pub mod GroupSteps
