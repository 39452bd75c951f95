pub mod TakenCells
pub mod FirstBases
pub mod DefaultChoice
pub mod PackSteps
