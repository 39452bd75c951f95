pub mod Batches
pub mod inner
