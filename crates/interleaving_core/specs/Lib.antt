pub mod Parts
pub mod Runs
pub mod inner
pub mod Table
