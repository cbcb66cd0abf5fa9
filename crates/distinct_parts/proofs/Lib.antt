pub mod Picks
pub mod FirstRows
pub mod KeyedColumns
pub mod Restored
pub mod Columns
pub mod FirstPicked
