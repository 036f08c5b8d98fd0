pub mod Sums
pub mod Raised
pub mod Derived
