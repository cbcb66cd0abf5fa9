-- The definitions that this crate's contracts cite beside those of `ps_frame`.
pub mod Led
pub mod Nullable
pub mod Orders
pub mod Ranks
pub mod Rows
pub mod Runs
