pub mod Sparse
pub mod Checks
pub mod Lent
