pub mod Filtering
pub mod Keys
pub mod Placing
pub mod Results
pub mod Rows
pub mod Selecting
pub mod Sorting
pub mod Steps
