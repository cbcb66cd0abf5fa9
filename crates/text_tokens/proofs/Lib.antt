-- Lemmas of the crate.
pub mod FrontRuns
pub mod Quoting
pub mod SignReading
pub mod OneToken
pub mod Cutting
pub mod Written
pub mod OneCut
