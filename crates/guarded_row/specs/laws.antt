pub mod ThreadSafety
