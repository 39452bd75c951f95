pub mod GroupValues
pub mod FoundValues
pub mod AnswerValues
pub mod Objects
pub mod KnownProfiles
pub mod Audited
