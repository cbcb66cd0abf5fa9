mod Even
mod EvenEval
mod EvenSteps
mod EvenPlans
mod QuerySteps
pub mod RowsAlone
