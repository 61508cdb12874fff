pub mod Arguments
pub mod Leaves
pub mod Values
pub mod Reading
pub mod View
pub mod Answers
pub mod Writing
pub mod Lookups
