mod StoreLookUps
mod KeptRule
pub mod ThreadSafety
mod NewsRead
