pub mod TermsUp
pub mod Shape
pub mod Multiplied
