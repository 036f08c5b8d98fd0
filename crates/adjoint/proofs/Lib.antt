pub mod Fits
pub mod Turned
pub mod Order
