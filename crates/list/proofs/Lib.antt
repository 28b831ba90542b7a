mod Refusals
mod Writing
