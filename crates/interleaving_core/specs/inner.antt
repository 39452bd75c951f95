-- Definitions that only private contracts and proofs use.
pub mod Consistency
pub mod EventSteps
pub mod PassedEvents
-- Definitions for private contracts and proofs only.
pub mod SharedParts
