pub mod Spellings
pub mod Verdicts
pub mod Walked
