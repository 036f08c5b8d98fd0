pub mod Filled
pub mod Columns
pub mod Runs
pub mod Puts
pub mod Lent
