pub mod Magnitude
pub mod Residual
pub mod Checks
pub mod Given
