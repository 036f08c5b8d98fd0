pub mod Numbers
pub mod Limit
pub mod Parameters
pub mod Causes
pub mod Order
