pub mod Results
pub mod Signs
pub mod Parts
pub mod Texts
pub mod Modes
pub mod Halves
