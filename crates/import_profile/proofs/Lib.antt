mod GroupLaws
mod MadeItems
mod Reread
pub mod ImportLaws
pub mod ExpandedTexts
mod Gathers
mod ToldOutcomes
pub mod ToldShapes
mod TooMany
