-- Definitions that the contracts of src/ cite.
pub mod Runs
pub mod Quotes
pub mod SignBytes
pub mod Tokens
