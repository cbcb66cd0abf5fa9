mod FieldSteps
mod OwnedSteps
