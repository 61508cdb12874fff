pub mod Names
pub mod Faults
pub mod Owned
pub mod Table
pub mod Rows
pub mod Cutting
pub mod Hashing
