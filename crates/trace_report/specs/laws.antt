pub mod Endings
pub mod Fronts
