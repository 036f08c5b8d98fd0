pub mod Branch
pub mod Rows
pub mod Scaled
pub mod Program
