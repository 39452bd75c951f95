pub mod RowLaws
pub mod RowLists
pub mod Fronts
