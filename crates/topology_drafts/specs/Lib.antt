pub mod Naming
pub mod Causes
pub mod Drafts
