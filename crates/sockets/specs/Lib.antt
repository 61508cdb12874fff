pub mod Answers
pub mod Counts
pub mod Traffic
pub mod Turns
