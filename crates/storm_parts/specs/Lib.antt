pub mod Fnv
pub mod Profiles
