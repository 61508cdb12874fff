pub mod Names
pub mod First
pub mod Leading
pub mod Narrowed
pub mod Entries
pub mod Kept
pub mod Judged
pub mod Allocating
