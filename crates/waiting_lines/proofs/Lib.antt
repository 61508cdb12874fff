pub mod Resting
pub mod Standing
pub mod Swept
pub mod Turned
