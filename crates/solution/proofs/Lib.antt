pub mod Lengths
pub mod Order
