pub mod Influence
pub mod StandIns
pub mod inner
pub mod laws
