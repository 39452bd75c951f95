pub mod ReadRuns
pub mod ReadCodeWords
