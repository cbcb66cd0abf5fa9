pub mod Fields
pub mod Known
pub mod Surveys
pub mod Valid
