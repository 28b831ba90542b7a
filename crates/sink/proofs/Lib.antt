pub mod Spelled
pub mod Feeds
pub mod Prints
