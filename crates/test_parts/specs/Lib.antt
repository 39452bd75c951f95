pub mod Cases
pub mod SmallTrees
