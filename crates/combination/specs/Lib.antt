pub mod Combination
pub mod Checks
pub mod Summed
pub mod Given
