pub mod Leaves
pub mod Kept
pub mod Shares
pub mod CallLaws
pub mod Ends
