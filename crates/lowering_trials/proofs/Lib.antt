mod Plans
mod Ready
mod Tested
mod WholeSteps
