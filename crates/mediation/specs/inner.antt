pub mod RecordVerdicts
pub mod LinkOutcomes
-- Words of private contracts and proofs alone.
pub mod Profiles
pub mod HeldProfiles
