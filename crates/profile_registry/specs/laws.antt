pub mod Prefixes
pub mod ThreadSafety
