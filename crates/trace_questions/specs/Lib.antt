pub mod Shown
pub mod Asked
pub mod Refusals
pub mod Objects
pub mod Search
pub mod Differences
pub mod inner
