pub mod Blocks
pub mod Numbering
pub mod Layout
pub mod Laid
pub mod Network
pub mod Tally
pub mod Lookups
