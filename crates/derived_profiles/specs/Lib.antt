pub mod Derived
pub mod Pattern
