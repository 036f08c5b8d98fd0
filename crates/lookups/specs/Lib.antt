pub mod Lookups
pub mod Numbered
