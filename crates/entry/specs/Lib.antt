pub mod Entries
pub mod Puts
