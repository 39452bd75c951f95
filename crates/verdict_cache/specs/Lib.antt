pub mod Questions
pub mod StructQuestions
pub mod Looks
pub mod inner
