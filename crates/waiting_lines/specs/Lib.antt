pub mod Order
pub mod Picked
