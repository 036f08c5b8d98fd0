pub mod Weighing
pub mod Passes
pub mod Gathering
pub mod Buffers
