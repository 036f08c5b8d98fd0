pub mod Shaped
pub mod Cuts
pub mod Same
pub mod Rises
pub mod OneMatrix
