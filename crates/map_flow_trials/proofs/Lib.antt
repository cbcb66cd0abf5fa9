mod Counts
mod Rules
mod Fitting
mod Turned
