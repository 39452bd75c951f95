-- Words of private contracts and proofs alone: the steps of a walk.
pub mod Steps
