-- Definitions that only private contracts and proofs use.
pub mod Kept
pub mod Planned
