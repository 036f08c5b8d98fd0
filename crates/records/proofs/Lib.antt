pub mod Causes
pub mod Laws
pub mod Sound
pub mod Segments
pub mod Order
