pub mod Conversations
pub mod Served
