pub mod Opens
pub mod Links
pub mod Tries
pub mod inner
pub mod laws
