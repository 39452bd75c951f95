pub mod Blocks
pub mod Sweep
pub mod Cursor
pub mod RuleHits
pub mod ByteBits
