pub mod Parts
pub mod Sides
pub mod Ends
pub mod Quads
pub mod Rfc4291
