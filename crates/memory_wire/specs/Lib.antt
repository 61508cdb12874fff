pub mod Logs
pub mod Passed
pub mod Served
