-- Definitions that only private contracts and proofs use.
pub mod KnownEntries
pub mod Words
pub mod WantedWords
pub mod Lacks
