pub mod Leaving
pub mod Lines
pub mod Moving
pub mod Named
pub mod Rounds
pub mod Turns
pub mod Waiting
