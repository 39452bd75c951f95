pub mod Ruled
pub mod Runs
