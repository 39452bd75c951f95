pub mod TestScript
pub mod LineValues
pub mod inner
pub mod laws
