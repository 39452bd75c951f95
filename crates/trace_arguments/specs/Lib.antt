pub mod Values
pub mod Given
pub mod Choices
pub mod CommandLine
pub mod ShortOptions
pub mod inner
