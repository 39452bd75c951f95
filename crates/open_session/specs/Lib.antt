pub mod Steps
pub mod Turns
pub mod Seen
pub mod inner
pub mod Words
pub mod Outcomes
