pub mod Rings
pub mod Turns
pub mod Voices
