pub mod Following
pub mod Ruled
pub mod Arms
pub mod Reductions
pub mod Selections
pub mod EachLemmas
pub mod CallLemmas
pub mod Ends
