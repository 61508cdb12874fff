pub mod First
pub mod Forbidding
pub mod LiveQueues
pub mod Narrowing
pub mod Obstacles
pub mod Passed
pub mod Allocating
