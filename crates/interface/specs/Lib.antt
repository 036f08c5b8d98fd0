pub mod Axes
pub mod Scales
pub mod Codes
pub mod Selectors
pub mod Lent
