-- Words of private contracts and proofs alone: what the store of a plain tree holds, and that it holds the entries of a tree.
pub mod Store
pub mod Mirror
