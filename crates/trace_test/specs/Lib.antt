pub mod Questions
pub mod Expectations
pub mod TestOutput
pub mod Laws
pub mod inner
