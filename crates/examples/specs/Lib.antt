pub mod Networks
pub mod Table
