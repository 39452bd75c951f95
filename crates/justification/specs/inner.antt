-- Words of private contracts and proofs alone.
pub mod Ends
pub mod Reach
