pub mod Drafts
mod Drops
mod Vacated
mod FilledCells
mod SettledSlots
mod NewEntries
mod Removals
mod Placement
mod Encoding
mod IndexedRows
mod Enactment
pub mod Encoded
mod Moves
pub mod NodeNumbers
mod Outcomes
mod Lengths
mod Losses
mod OneAct
