pub mod Counts
pub mod Faults
pub mod Logs
pub mod inner
