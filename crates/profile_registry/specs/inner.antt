-- Definitions for private contracts and proofs alone: what both copies contain.
pub mod Names
pub mod Contents
