pub mod Line
pub mod Ohm
