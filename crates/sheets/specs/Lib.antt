pub mod Files
pub mod Matches
pub mod Checks
pub mod Writes
pub mod Theorems
pub mod Places
pub mod Steps
pub mod Walks
