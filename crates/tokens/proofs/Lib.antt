pub mod Results
mod Fits
mod Pairs
pub mod Blanks
mod Tables
mod Names
mod Rules
mod Firsts
mod Quotes
mod Answers
pub mod Steps
pub mod Lists
pub mod Only
