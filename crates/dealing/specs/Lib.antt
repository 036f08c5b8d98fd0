pub mod Deal
pub mod Deals
pub mod Fill
pub mod Ahead
