pub mod Names
pub mod Questions
pub mod Faults
pub mod inner
pub mod laws
