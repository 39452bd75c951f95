pub mod Questions
pub mod Comparisons
pub mod Sides
pub mod Differences
pub mod Objects
