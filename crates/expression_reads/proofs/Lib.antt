pub mod Agreeing
pub mod Narrowed
pub mod Walking
pub mod Found
