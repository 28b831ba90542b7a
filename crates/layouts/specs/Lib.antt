pub mod Phases
pub mod Packed
