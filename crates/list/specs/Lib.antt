pub mod Filled
pub mod States
