pub mod Parts
pub mod Answer
