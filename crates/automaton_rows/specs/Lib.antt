pub mod Automata
pub mod Faults
pub mod Rows
pub mod laws
