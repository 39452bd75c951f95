pub mod Answers
pub mod Batches
pub mod Sets
pub mod inner
