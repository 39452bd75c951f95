mod SpanLists
mod CutSteps
pub mod WholeCuts
pub mod ToldRules
mod ExactCuts
mod ByBraces
