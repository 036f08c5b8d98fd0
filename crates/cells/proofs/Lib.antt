pub mod Fills
pub mod Ends
pub mod Sizes
pub mod Runs
pub mod Puts
