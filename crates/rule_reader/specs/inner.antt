pub mod PartialPaths
pub mod Gives
