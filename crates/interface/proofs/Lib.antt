pub mod Selectors
pub mod Order
pub mod Lent
