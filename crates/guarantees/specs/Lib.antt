pub mod Stated
pub mod Causes
pub mod Reads
pub mod Covering
