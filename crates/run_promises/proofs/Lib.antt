pub mod Together
pub mod EachKind
pub mod AllPromises
pub mod EachNode
