pub mod ReadsBack
pub mod Prints
pub mod OneWay
