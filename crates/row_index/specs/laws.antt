pub mod Homes
pub mod Sizes
pub mod Rounds
