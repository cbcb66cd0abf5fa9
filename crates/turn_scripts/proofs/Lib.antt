mod Columns
mod Updated
