pub mod Alike
pub mod Bare
pub mod Pairs
pub mod Groves
pub mod Spelled
