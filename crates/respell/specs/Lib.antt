pub mod Copies
pub mod Shown
pub mod Spelt
