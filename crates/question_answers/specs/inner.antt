pub mod Wants
pub mod Causes
