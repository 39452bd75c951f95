pub mod ItemWords
pub mod Scopes
pub mod Overrides
pub mod FirstFaults
pub mod Told
pub mod inner
pub mod laws
