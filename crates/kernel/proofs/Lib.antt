pub mod Sized
pub mod Counted
pub mod Order
pub mod Dims
