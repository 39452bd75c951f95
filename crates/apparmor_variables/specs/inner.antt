pub mod AddedBytes
pub mod Gives
pub mod Known
pub mod Way
