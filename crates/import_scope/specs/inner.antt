pub mod Outlines
pub mod Problems
