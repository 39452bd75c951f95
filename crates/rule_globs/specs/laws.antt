pub mod TokenItems
pub mod MeaningLaws
pub mod TokenLaws
pub mod Cuts
pub mod PlainLaws
pub mod Behind
