mod Running
mod Walking
mod Wanting
