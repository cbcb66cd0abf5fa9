mod Walking
pub mod Places
mod Lines
