pub mod Order
pub mod Table
pub mod Laid
pub mod Readings
pub mod Places
