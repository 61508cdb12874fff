pub mod Shape
pub mod File
pub mod States
pub mod Causes
pub mod Reads
pub mod Judged
pub mod Hashed
pub mod Looked
