pub mod Dealing
pub mod Deals
pub mod Counts
pub mod Blurs
pub mod Fills
pub mod Counting
pub mod Ahead
