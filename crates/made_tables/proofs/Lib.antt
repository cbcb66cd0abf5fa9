pub mod Broken
mod Alone
mod Joins
mod Mapped
mod Narrow
