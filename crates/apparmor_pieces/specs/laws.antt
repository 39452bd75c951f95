pub mod PieceSteps
pub mod PieceLaws
