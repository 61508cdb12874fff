pub mod Imports
pub mod Alls
pub mod Deciding
pub mod Order
pub mod Hashing
pub mod Building
pub mod Whole
