pub mod Kinds
pub mod Side
