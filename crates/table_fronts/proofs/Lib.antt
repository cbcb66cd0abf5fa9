pub mod ReduceLaw
pub mod MadeTables
pub mod MadeLaw
pub mod ZipRows
pub mod ZipLaw
pub mod ZipJustified
