pub mod PairNumbers
pub mod PairLaws
