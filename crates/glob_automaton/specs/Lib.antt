pub mod Least
pub mod Sets
pub mod Automata
pub mod Parts
pub mod inner
pub mod laws
