pub mod Lists
pub mod Joined
pub mod Selections
pub mod Faults
