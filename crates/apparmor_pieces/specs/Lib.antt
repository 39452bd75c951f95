pub mod Pieces
pub mod CodePieces
pub mod Slashes
pub mod laws
