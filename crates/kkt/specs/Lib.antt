pub mod Kkt
