pub mod Lists
pub mod Writes
pub mod Rule
pub mod KeeperSteps
pub mod WalkerSteps
pub mod Meetings
