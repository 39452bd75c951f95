pub mod AllTexts
pub mod Failures
pub mod WrittenMaps
