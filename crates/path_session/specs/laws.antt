pub mod KeeperStates
pub mod ThreadSafety
