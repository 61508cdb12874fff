pub mod Names
pub mod Consuming
mod Declaring
mod Delivered
mod Freed
mod Getting
mod GivenOut
mod Outcomes
pub mod Picking
pub mod Placing
mod Publishing
mod Purging
mod Staying
pub mod Reloading
mod Settling
mod Lending
mod Answering
mod Commanding
mod LiveQueues
pub mod Stepping
pub mod Remaining
mod Turning
mod Exchanges
pub mod Judging
mod Settlements
mod Consumes
pub mod Making
pub mod Settled
mod Woken
