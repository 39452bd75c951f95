pub mod Fields
pub mod Denials
