pub mod Asked
pub mod Ranks
pub mod Theorem
pub mod Order
