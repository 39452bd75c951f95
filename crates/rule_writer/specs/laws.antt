pub mod CanonWrites
