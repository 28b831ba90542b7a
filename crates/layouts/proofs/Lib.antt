pub mod Steps
pub mod Forms
pub mod Phased
pub mod Packs
pub mod Says
pub mod Levels
