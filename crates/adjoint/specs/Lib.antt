pub mod Transposes
pub mod Selectors
pub mod Checks
