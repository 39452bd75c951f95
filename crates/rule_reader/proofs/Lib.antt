mod ReadSteps
mod TokenSteps
pub mod AgainWords
mod AgainHeader
mod AgainClasses
pub mod AgainPaths
pub mod AgainRules
mod AgainTexts
mod CanonTrees
mod ReadLoops
mod ReadCodePaths
mod ReadCodeText
mod TakeWords
mod TakeClasses
pub mod TakePaths
mod TakeRules
mod TakeHeader
mod TakeTexts
mod Kept
mod KeptWords
mod KeptHeader
mod KeptPaths
mod KeptTexts
mod ReadOutcomes
mod SpanLoops
mod SpanLaws
pub mod ReadStands
