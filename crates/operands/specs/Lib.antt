pub mod Selector
