pub mod WordReads
pub mod PlainWords
