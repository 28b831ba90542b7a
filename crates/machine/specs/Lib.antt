pub mod Values
pub mod Machine
