pub mod Publication
pub mod laws
