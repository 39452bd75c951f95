pub mod Marks
pub mod Comparisons
