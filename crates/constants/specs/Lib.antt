pub mod Trees
pub mod Types
pub mod Meaning
pub mod Lists
pub mod Fitting
pub mod Answers
pub mod Steps
