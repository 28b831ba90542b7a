pub mod Within
pub mod Pairs
