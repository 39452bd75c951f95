pub mod CanonicalItems
pub mod Untold
pub mod Imported
pub mod RulesInside
