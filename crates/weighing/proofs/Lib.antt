pub mod Cells
pub mod Rows
pub mod Columns
pub mod Gathered
pub mod Filled
pub mod Walked
pub mod Buffers
pub mod Walking
