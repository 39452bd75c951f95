pub mod Values
pub mod Lines
pub mod inner
pub mod laws
