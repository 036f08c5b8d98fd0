pub mod Bytes
pub mod Fields
pub mod AcNetwork
pub mod Network
pub mod Check
pub mod Case
