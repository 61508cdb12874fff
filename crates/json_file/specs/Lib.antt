pub mod Members
pub mod Outcomes
pub mod Causes
pub mod Files
