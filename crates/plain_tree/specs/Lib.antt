pub mod PlainEntry
pub mod PlainLaws
pub mod inner
pub mod laws
