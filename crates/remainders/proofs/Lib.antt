pub mod Left
pub mod Signs
