pub mod Imports
pub mod Mapped
pub mod Runs
pub mod Settlement
pub mod Counting
pub mod Making
pub mod Numbering
pub mod Halving
pub mod Moving
mod Marking
pub mod Tagging
pub mod Seating
pub mod Awake
pub mod Listed
pub mod ConnectionsCounting
mod Opening
pub mod Outcomes
pub mod Setting
pub mod Putting
pub mod Places
pub mod ConnectionsMoving
pub mod Taking
