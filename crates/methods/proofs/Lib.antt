pub mod Names
pub mod Rebuilt
pub mod Whole
pub mod Rows
