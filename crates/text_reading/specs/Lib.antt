-- Definitions that the contracts of src/ cite.
pub mod Reading
