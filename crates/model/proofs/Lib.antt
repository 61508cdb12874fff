pub mod Cuts
pub mod Left
pub mod Joins
