mod Standing
mod Takers
mod Reached
mod Takes
mod ZipMoves
mod NodeMoves
pub mod GoesOn
