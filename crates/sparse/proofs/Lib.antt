pub mod Fits
pub mod Places
pub mod Folds
pub mod Pairs
