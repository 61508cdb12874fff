pub mod Names
pub mod Reading
pub mod Order
pub mod Refused
