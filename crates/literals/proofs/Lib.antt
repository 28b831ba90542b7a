pub mod Figures
pub mod Runs
pub mod Starts
pub mod Parts
pub mod Spans
pub mod Choices
pub mod Answered
pub mod Worked
