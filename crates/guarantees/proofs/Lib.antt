pub mod Names
pub mod Finding
pub mod Whole
pub mod Coverings
pub mod Keeping
pub mod Judging
