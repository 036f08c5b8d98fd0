pub mod Larger
pub mod Fits
pub mod Regular
pub mod ByColumns
pub mod Order
