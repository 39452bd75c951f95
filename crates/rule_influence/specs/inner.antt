pub mod Deciders
pub mod Candidates
pub mod Lists
