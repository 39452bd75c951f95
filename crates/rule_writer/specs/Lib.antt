pub mod Canonical
pub mod laws
