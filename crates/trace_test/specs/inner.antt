pub mod Published
pub mod Reasons
pub mod Sentences
pub mod Tests
