pub mod Sessions
pub mod AtHand
pub mod KeeperStates
pub mod inner
pub mod laws
