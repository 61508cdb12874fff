pub mod Properties
pub mod Unread
pub mod Reading
pub mod Writing
pub mod Laws
