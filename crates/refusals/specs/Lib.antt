pub mod Refusals
pub mod Order
