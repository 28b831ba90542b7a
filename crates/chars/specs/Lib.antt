pub mod Chars
pub mod Runs
pub mod Texts
