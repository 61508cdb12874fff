pub mod Waiting
pub mod Sending
pub mod Storages
