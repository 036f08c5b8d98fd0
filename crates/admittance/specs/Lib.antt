pub mod Stores
pub mod Series
pub mod Admittance
pub mod Places
