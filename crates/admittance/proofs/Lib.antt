pub mod Stored
pub mod Numbers
pub mod Entries
