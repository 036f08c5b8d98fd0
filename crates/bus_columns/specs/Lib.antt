pub mod Counts
pub mod Ends
pub mod Gathered
