pub mod Results
pub mod Words
pub mod Blanks
pub mod Rules
pub mod Tokens
