mod One
mod Runs
