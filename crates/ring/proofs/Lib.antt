pub mod Whole
pub mod Laws
pub mod Ring
pub mod Order
