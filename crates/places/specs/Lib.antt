pub mod Meant
pub mod Under
