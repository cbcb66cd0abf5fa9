mod Reading
mod Counting
mod Adding
mod Listing
mod InUse
