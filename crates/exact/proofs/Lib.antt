pub mod Choices
pub mod Only
pub mod ReadBack
pub mod Exact
pub mod Examples
pub mod Worked
