mod Copied
pub mod NamedCopies
