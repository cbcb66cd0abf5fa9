pub mod Counted
pub mod Singles
