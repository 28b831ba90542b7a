pub mod Results
pub mod Places
pub mod Counted
pub mod Going
