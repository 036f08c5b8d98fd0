pub mod Linear
pub mod Quad
