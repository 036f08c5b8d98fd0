pub mod Ops
pub mod Laws
