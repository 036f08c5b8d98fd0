pub mod Fits
pub mod Tables
pub mod Forward
pub mod Adjoint
pub mod Order
