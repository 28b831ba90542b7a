pub mod Results
pub mod Salvage
pub mod Answers
pub mod Theorems
pub mod Steps
pub mod Rows
pub mod Compute
pub mod Cases
