pub mod ThreadSafety
pub mod Closures
