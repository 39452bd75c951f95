-- Words of private contracts and proofs alone.
pub mod StageData
pub mod Ends
-- Definitions that only private contracts and proofs use.
pub mod WordMaps
pub mod ReadCells
