mod Ready
mod Kept
mod Counts
