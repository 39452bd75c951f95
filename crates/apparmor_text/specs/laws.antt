pub mod Progress
pub mod GoingWords
