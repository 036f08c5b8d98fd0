pub mod Rooms
pub mod Answers
pub mod Order
