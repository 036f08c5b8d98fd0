pub mod Quadratic
pub mod Linear
