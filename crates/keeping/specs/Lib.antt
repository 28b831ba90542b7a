pub mod Kept
pub mod Breaks
