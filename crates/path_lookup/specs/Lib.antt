pub mod World
pub mod WalkFaults
pub mod Target
pub mod inner
