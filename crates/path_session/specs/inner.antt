-- Definitions that only private contracts use.
pub mod Walks
pub mod Shares
pub mod Right
pub mod Knowledge
pub mod Attempts
