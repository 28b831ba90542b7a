pub mod Results
pub mod Groups
pub mod Quads
pub mod Addresses
pub mod Rfc4291
