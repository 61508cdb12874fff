pub mod Names
pub mod Worlds
pub mod Places
pub mod Steps
pub mod Reloads
pub mod Onward
pub mod Ending
