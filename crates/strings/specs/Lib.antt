pub mod Results
pub mod Escapes
pub mod Utf8
pub mod Strings
