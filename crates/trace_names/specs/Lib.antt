pub mod Choices
pub mod NameLists
pub mod Names
pub mod inner
