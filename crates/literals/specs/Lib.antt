pub mod Results
pub mod Decimals
pub mod Answers
pub mod Steps
