pub mod Limits
pub mod Answers
pub mod Rows
pub mod Tests
