pub mod Bytes
pub mod PackedWords
pub mod Slots
mod SeenSlots
mod Counts
mod SeenEntries
mod Knowledge
mod Merges
mod IndexSearch
