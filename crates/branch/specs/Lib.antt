pub mod Series
pub mod Ohm
