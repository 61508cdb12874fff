pub mod Members
pub mod Entering
