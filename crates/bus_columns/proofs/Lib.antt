pub mod ColumnEnds
pub mod Counts
pub mod Ends
pub mod Gathered
pub mod Passed
pub mod Sides
