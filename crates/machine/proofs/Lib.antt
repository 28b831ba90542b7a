pub mod Told
pub mod Running
