pub mod Leads
pub mod Choices
pub mod Alike
pub mod inner
pub mod laws
