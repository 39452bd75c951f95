pub mod Opens
pub mod inner
pub mod Versions
pub mod Justified
pub mod Answers
pub mod laws
