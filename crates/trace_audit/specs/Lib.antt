pub mod Groups
pub mod Lookups
pub mod Answers
pub mod Lines
pub mod Values
pub mod Audit
pub mod inner
