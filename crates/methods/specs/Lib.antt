pub mod Kinds
pub mod Reading
pub mod Writing
pub mod Laws
pub mod Pieces
pub mod Putting
pub mod Splitting
