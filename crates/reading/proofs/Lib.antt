pub mod Halves
pub mod Readings
pub mod Order
