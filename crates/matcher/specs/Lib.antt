pub mod TableVerdicts
pub mod MakeFaults
pub mod Profiles
