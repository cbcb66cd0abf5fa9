-- Definitions that the contracts of src/ cite.
pub mod Told
pub mod Words
