pub mod Tables
pub mod Judge
pub mod Explain
pub mod Quiet
pub mod ReadImages
pub mod inner
pub mod laws
