pub mod Firsts
pub mod Promises
