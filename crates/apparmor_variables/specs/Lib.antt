pub mod Variables
pub mod WholeLists
pub mod Problems
pub mod PathTexts
pub mod Counts
pub mod Faults
pub mod inner
