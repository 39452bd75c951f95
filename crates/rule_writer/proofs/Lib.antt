pub mod CanonCells
mod CanonClasses
pub mod CanonItems
pub mod CanonTexts
mod Canon
mod CanonRules
