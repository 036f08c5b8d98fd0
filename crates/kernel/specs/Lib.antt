pub mod Answers
pub mod Combinations
pub mod Scalars
pub mod Sens
pub mod Cases
