pub mod OpeningRow
pub mod OneTree
pub mod Decisions
pub mod TakenWords
pub mod WorldsAfter
