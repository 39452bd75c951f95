mod Kept
pub mod Depth
pub mod Texts
mod Links
pub mod Walks
mod NodeKinds
pub mod Presence
pub mod Drops
mod Moves
mod Renames
pub mod Changes
pub mod Placement
mod Reached
mod Linked
mod LinkCounts
mod Descent
pub mod Actions
mod Origins
mod Lives
pub mod Accepted
mod Fronts
mod Renamed
pub mod Histories
