mod Differing
mod MembersFound
mod NoQuery
pub mod OneQuery
