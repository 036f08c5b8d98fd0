pub mod Lines
pub mod Ohms
pub mod Sizes
