pub mod Escapes
pub mod Utf8
pub mod Strings
pub mod Closed
pub mod Quotes
