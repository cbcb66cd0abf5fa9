mod Reached
mod Streaming
mod Standing
mod Moves
mod HandIns
mod Ending
mod Answering
