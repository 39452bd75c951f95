pub mod Row
pub mod Steps
pub mod Counts
pub mod laws
