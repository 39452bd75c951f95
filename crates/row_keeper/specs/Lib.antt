pub mod KeeperSteps
pub mod inner
