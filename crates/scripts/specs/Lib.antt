pub mod FileNames
pub mod Script
pub mod Lines
pub mod Transcript
