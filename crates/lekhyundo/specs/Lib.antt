pub mod Numbers
pub mod Entered
pub mod Floated
pub mod Searched
pub mod Evaluated
pub mod Tabled
pub mod Salvaged
pub mod Printed
