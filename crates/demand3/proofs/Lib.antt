pub mod KktCount
pub mod KktCones
pub mod KktPlaces
pub mod Demand3
