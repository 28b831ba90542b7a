pub mod Fine
mod Names
pub mod Stored
