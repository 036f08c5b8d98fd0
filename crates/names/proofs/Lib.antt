pub mod Standing
pub mod Order
pub mod Table
