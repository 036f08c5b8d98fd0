pub mod Balances
pub mod Passes
