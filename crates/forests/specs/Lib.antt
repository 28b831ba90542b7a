pub mod Planted
pub mod Told
pub mod Met
