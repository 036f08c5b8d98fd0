pub mod PartsOfA
pub mod Ahead
