pub mod Stack
pub mod Turns
pub mod Planted
pub mod Said
