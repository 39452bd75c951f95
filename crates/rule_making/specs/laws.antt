pub mod Ends
pub mod ChoiceLaws
pub mod SameNames
