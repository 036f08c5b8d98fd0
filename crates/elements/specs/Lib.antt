pub mod Lengths
pub mod Ids
pub mod Balance
