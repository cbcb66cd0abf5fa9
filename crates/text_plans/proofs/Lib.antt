mod Entered
mod Lists
mod Planned
mod Wholes
mod Places
mod Stages
