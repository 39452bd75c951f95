pub mod Steps
pub mod Shorter
