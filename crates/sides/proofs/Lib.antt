pub mod Ends
pub mod Ratings
pub mod RightSide
pub mod Across
pub mod Behind
