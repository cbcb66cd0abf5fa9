pub mod Standing
pub mod ByRow
pub mod Ignoring
pub mod RowLaws
pub mod OneCell
