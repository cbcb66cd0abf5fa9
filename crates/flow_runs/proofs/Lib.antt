mod Counted
mod Held
mod KindClaims
mod MorselClaims
mod OwnClaims
mod Moving
