pub mod Literals
pub mod Examples
