pub mod Limits
pub mod Rules
pub mod Profile
pub mod PathTokens
pub mod Readable
pub mod RuleSpans
