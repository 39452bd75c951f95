pub mod ToldValues
pub mod Modes
pub mod PartSpans
pub mod CutStates
pub mod Cuts
pub mod Nests
pub mod Spans
pub mod ReadRules
