mod FirstWords
pub mod Lists
pub mod Told
mod ToldExpr
mod ToldNode
mod FrameColumns
mod CellColumns
pub mod ToldTable
mod NineItems
mod Members
mod NoPlan
mod MembersFound
mod ReadTable
mod NoExpr
mod NoNode
mod Taken
pub mod OnePlan
