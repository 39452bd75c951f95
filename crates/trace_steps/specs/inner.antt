-- Definitions that only private contracts and proofs use.
pub mod StepValues
pub mod Numbers
pub mod Actions
pub mod FollowedSteps
