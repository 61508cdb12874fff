pub mod Imports
pub mod Outcomes
pub mod Reloading
pub mod Telling
