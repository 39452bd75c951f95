pub mod Bits
pub mod Notes
pub mod Tally
