pub mod Turns
pub mod Search
pub mod Walks
pub mod Worked
