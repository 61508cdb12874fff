pub mod Names
pub mod Indices
pub mod Keying
pub mod Passing
pub mod Marking
pub mod Naming
pub mod Stepping
pub mod Reached
pub mod Starting
mod Visiting
pub mod Picking
pub mod Good
pub mod Edging
pub mod DeadSteps
pub mod Routing
