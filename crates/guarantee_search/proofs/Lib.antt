pub mod Names
pub mod Keys
pub mod Wording
pub mod Walking
pub mod Sorting
pub mod Deciding
