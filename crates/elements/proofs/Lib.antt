pub mod Balance
pub mod Counted
pub mod Order
