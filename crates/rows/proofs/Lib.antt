pub mod Zeros
mod Compares
