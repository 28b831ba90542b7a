pub mod Parts
pub mod Counted
pub mod Items
pub mod Modes
pub mod Pairs
pub mod Halved
pub mod Examples
